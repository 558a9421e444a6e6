pub mod ConstraintRows
pub mod Members
pub mod Pairs
pub mod PairsByRow
pub mod Together
