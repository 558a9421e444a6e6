pub mod Plain
pub mod Resumable
pub mod Booking
