pub mod KindNumbers
pub mod Signed
pub mod CellLaws
pub mod Tables
