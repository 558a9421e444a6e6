pub mod DayLaws
pub mod FieldLaws
pub mod InstantLaws
pub mod Examples
