pub mod Words
pub mod Runs
pub mod worked
pub mod wrong
