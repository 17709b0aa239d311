-- Lemmas.
pub mod Decoded
