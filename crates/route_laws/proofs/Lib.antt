-- Lemmas.
pub mod Routed
pub mod Still
