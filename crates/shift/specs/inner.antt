pub mod InClass
