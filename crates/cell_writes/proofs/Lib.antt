-- Lemmas.
pub mod Laid
