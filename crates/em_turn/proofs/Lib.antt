pub mod Wraps
pub mod Views
pub mod Items
pub mod Tickets
pub mod Lists
pub mod Kept
pub mod Seats
