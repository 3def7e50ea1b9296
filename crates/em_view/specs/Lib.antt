pub mod Tags
pub mod Markup
pub mod Outcome
