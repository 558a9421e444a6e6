pub mod Known
pub mod Tests
