-- Lemmas.
pub mod Labels
pub mod Written
