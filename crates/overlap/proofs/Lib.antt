-- Lemmas of `overlap`, and worked examples.
pub mod Examples
pub mod Laws
