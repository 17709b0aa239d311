-- Lemmas.
pub mod Faults
pub mod Routed
pub mod Starts
