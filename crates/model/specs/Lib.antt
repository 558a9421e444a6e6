pub mod Activity
pub mod Constraint
pub mod Resource
pub mod Schedule
pub mod Sheet
pub mod Task
pub mod inner
