pub mod Clock
pub mod Calendar
pub mod Amount
pub mod WorkEnd
pub mod Layout
pub mod Fit
pub mod Examples
pub mod inner
