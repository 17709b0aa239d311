-- Lemmas.
pub mod Leaving
