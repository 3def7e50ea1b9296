pub mod Decimal
pub mod Fields
pub mod Words
pub mod Splitting
pub mod Outcome
pub mod Headline
