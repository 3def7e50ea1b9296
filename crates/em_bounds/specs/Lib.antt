pub mod Paid
pub mod Room
pub mod Bound
pub mod Pending
