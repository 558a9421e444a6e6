pub mod DigitLaws
pub mod Examples
pub mod PartLaws
pub mod AllLaws
