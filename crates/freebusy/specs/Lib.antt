pub mod Call
pub mod inner
