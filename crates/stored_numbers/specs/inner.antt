pub mod Numbers
pub mod Yet
pub mod Gives
