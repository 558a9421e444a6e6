pub mod Accepting
pub mod ConstraintLaws
pub mod OwnedLaws
pub mod RowLaws
pub mod Finds
pub mod Requiring
pub mod Tasks
