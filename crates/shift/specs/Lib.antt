pub mod Examples
pub mod Shift
pub mod inner
