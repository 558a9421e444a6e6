pub mod Numbers
pub mod Bare
pub mod Moved
pub mod Shift
pub mod Examples
pub mod Farthest
