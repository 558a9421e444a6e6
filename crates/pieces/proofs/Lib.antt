pub mod Bookings
pub mod Chains
pub mod Companions
pub mod Indices
pub mod Marks
