pub mod Early
