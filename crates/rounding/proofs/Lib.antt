-- Lemmas of `rounding`.
pub mod Laws
