-- Lemmas.
pub mod Mirroring
pub mod Keeping
