-- Lemmas of `resource_timing`, and worked examples of derived times.
pub mod Examples
pub mod Laws
