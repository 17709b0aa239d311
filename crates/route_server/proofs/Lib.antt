-- Lemmas.
pub mod Calls
pub mod Ordering
pub mod Places
pub mod Running
pub mod Sayings
pub mod Standing
pub mod Tallies
pub mod Texts
