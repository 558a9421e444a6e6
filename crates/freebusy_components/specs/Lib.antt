pub mod Components
pub mod inner
