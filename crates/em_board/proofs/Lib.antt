pub mod Marked
pub mod Others
pub mod SharedDesks
pub mod Turns
pub mod Closes
pub mod Builds
