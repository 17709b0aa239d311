-- Lemmas.
pub mod Doubles
pub mod Filled
pub mod Places
