pub mod QueueSets
pub mod Operations
pub mod Endings
