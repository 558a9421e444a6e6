pub mod Places
pub mod inner
