pub mod Line
pub mod Form
pub mod Forms
pub mod Text
pub mod Reading
pub mod Traces
pub mod Fitting
pub mod FirstLines
