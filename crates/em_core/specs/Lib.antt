pub mod FixedAsks
pub mod Pieces
pub mod Spent
pub mod Stands
pub mod Steps
