pub mod Calendar
pub mod DateTime
