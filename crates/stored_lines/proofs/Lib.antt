pub mod FormLaws
pub mod LineLaws
