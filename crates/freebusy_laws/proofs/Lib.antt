pub mod Cases
pub mod Examples
pub mod Folding
pub mod Rows
