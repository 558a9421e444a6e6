pub mod Call
pub mod Demand3
pub mod Refusals
