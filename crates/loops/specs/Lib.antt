pub mod Lists
pub mod Numbers
pub mod Ordered
pub mod Range
pub mod Search
pub mod Sums
pub mod inner
