pub mod Laying
pub mod Lists
pub mod WindowRows
