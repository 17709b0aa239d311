-- Lemmas.
pub mod Renaming
