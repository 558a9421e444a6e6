pub mod Sink
pub mod Told
