pub mod Lateness
