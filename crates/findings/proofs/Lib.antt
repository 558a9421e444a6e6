pub mod Reporting
pub mod SinkLaws
