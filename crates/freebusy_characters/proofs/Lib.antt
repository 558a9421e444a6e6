pub mod ByteLaws
pub mod CaseLaws
pub mod QuotedLaws
pub mod TextLaws
