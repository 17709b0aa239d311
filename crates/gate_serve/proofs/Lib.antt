-- Lemmas.
pub mod Posting
pub mod Wrapped
