pub mod AllowedQueues
pub mod MovedTargets
pub mod OwedSteps
pub mod BegunTargets
pub mod DoneOperations
pub mod Kept
