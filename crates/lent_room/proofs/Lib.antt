pub mod Pushing
pub mod Storing
