pub mod Ending
pub mod Order
