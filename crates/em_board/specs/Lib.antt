pub mod Marked
pub mod SharedDesks
pub mod Passes
pub mod Calls
pub mod Joins
