-- Lemmas.
pub mod Spelled
