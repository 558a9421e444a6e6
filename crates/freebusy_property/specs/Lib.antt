pub mod Quotes
pub mod Property
pub mod inner
