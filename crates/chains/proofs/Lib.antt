pub mod Passing
pub mod PlaceLaws
pub mod TableWalk
pub mod WalkLaws
