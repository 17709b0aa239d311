-- Lemmas.
pub mod Unnamed
