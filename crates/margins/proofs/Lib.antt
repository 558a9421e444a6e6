pub mod Examples
pub mod Lines
pub mod Printing
