pub mod Lists
pub mod Gone
pub mod Arrivals
pub mod Released
pub mod Entered
