pub mod Indexed
pub mod Mapped
pub mod Records
