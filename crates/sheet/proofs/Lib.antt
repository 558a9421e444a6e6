pub mod Groups
pub mod Keeping
pub mod Lookups
pub mod Naming
pub mod Stored
