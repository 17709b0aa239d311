-- Lemmas.
pub mod Calls
pub mod Ordering
pub mod Places
pub mod Running
pub mod Standing
pub mod Tallies
pub mod Telling
pub mod Sayings
pub mod Texts
