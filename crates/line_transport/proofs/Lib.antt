-- Lemmas.
pub mod Cutting
pub mod Searching
pub mod Spanning
