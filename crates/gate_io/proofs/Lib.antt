-- Lemmas.
pub mod Streams
pub mod Tails
pub mod Windows
