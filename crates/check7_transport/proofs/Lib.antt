pub mod Moves
pub mod Longest
