pub mod Spans
pub mod Told
