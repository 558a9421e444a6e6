pub mod Load
pub mod inner
