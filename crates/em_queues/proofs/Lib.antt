pub mod BitLemmas
pub mod SetLemmas
pub mod Chains
pub mod LinkedLists
pub mod EventCalls
pub mod SeenEvents
pub mod EmptyLists
mod SetUnions
pub mod WaitingLemmas
pub mod RowLemmas
pub mod WholeLemmas
pub mod ListChanges
pub mod Stands
pub mod Calls
pub mod Opening
pub mod Restoration
pub mod BestQueues
pub mod QueueCalls
