pub mod Bookings
pub mod Held
pub mod Marks
