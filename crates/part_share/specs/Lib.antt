-- Definitions that the contracts of `part_share` cite.
pub mod Share
pub mod inner
