pub mod Bounds
pub mod Told
