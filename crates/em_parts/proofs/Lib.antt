pub mod StepLemmas
pub mod Mintings
pub mod Holdings
pub mod Spendings
pub mod QueueLists
pub mod Untouched
