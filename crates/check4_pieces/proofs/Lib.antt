pub mod Along
pub mod Keys
