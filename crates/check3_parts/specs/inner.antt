pub mod Booked
pub mod Measure
