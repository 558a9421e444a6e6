pub mod Absent
pub mod Links
pub mod Owning
pub mod Tables
