pub mod Steps
pub mod Asked
pub mod Choices
pub mod Follows
pub mod Inversion
pub mod Moments
pub mod Blocks
