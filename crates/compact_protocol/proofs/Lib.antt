-- Lemmas.
pub mod Headers
