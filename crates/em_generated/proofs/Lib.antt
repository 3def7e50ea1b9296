pub mod Numbers
pub mod Names
pub mod Order
pub mod Bodies
pub mod WellFormed
