-- Definitions that the contracts of `overlap` cite.
pub mod Bounds
pub mod inner
