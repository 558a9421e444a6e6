pub mod Examples
pub mod TextLaws
