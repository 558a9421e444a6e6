pub mod Margins
pub mod Call
pub mod Findings
pub mod Examples
pub mod Reach
pub mod Sliding
pub mod inner
