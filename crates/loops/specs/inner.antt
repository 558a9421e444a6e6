pub mod Chain
pub mod Tells
pub mod Wrote
