pub mod InTurns
pub mod Choosing
