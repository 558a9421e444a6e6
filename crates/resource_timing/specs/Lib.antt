-- Definitions that the contracts of `resource_timing` cite.
pub mod Durations
pub mod inner
