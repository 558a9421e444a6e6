pub mod Moved
pub mod Overlapping
pub mod Told
