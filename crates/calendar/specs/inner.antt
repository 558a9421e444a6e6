pub mod Moves
pub mod Scan
