pub mod Bytes
pub mod Lines
pub mod Folding
pub mod inner
