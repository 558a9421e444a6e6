pub mod FieldLaws
pub mod LineLaws
