pub mod Ending
pub mod Reason
pub mod inner
