pub mod Lists
pub mod Claimants
pub mod Pieced
pub mod Whole
