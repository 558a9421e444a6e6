pub mod Reading
pub mod Sent
