pub mod Counting
pub mod Finding
pub mod Judging
pub mod Placing
pub mod Summing
