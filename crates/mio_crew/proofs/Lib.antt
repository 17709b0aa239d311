-- Lemmas.
pub mod Above
