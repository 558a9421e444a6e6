pub mod Sink
pub mod Handing
pub mod Told
