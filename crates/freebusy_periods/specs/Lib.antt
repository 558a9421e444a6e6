pub mod Duration
pub mod Period
pub mod inner
