pub mod CaseLaws
pub mod Examples
pub mod NameLaws
pub mod PartLaws
pub mod QuoteLaws
