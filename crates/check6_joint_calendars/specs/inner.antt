pub mod Taken
pub mod Laid
pub mod Laying
