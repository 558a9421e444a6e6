pub mod Needs
pub mod Rows
