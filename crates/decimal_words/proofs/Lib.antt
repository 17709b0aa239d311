-- Lemmas.
pub mod Numerals
