-- Lemmas of `part_share`.
pub mod Laws
