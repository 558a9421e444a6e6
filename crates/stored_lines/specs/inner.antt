pub mod Line
pub mod Case
pub mod Cases
