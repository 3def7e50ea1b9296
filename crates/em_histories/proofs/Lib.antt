pub mod Chain
pub mod Refusals
pub mod worked
pub mod wrong
