pub mod Filling
pub mod Onward
pub mod Wording
