pub mod FixedAsks
pub mod Handles
pub mod Leads
pub mod Histories
pub mod Parts
pub mod Replies
pub mod Standing
