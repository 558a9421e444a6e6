pub mod Handing
pub mod LineLaws
pub mod Telling
pub mod Whole
