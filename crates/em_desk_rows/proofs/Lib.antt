pub mod Driving
pub mod Deciding
