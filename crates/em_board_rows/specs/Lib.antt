pub mod Graphs
pub mod Cores
pub mod Passes
