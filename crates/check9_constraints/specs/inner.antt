pub mod Bookings
pub mod Outside
pub mod Starts
