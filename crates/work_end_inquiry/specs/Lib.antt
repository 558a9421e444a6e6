pub mod Inquiry
pub mod inner
