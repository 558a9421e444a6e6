pub mod Accepted
pub mod Found
pub mod Groups
pub mod Index
pub mod Kept
