pub mod Completion
pub mod Running
