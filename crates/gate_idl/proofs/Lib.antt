-- Lemmas.
pub mod Alike
pub mod Once
pub mod Opened
