pub mod Gathering
pub mod Joint
pub mod Marking
pub mod Once
pub mod Whole
