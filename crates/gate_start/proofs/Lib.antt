-- Lemmas.
pub mod Rising
pub mod Starts
pub mod Unfound
