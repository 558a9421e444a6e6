pub mod Derivation
pub mod Finds
pub mod Parts
pub mod Refusing
