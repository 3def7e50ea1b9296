pub mod PoolSteps
pub mod PoolAlike
pub mod QueueSteps
pub mod QueueAlike
