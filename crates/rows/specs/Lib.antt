pub mod Cells
pub mod Kinds
pub mod Ranges
pub mod Table
pub mod inner
