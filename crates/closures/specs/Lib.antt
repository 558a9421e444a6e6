pub mod Program
pub mod inner
