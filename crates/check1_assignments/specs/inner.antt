pub mod Bookings
