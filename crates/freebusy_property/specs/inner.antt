pub mod Left
pub mod Reading
