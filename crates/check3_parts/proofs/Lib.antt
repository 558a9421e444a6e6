pub mod Works
pub mod Sums
pub mod Findings
pub mod Whole
