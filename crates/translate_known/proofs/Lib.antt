-- Lemmas.
pub mod Levels
pub mod Taking
