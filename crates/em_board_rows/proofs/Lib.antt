pub mod Cores
pub mod Calls
pub mod Passes
