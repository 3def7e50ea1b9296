pub mod Onto
pub mod Objects
pub mod Holding
pub mod Held
pub mod Others
