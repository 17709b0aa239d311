-- Lemmas.
pub mod Beginnings
pub mod Fronts
pub mod HeaderInBinary
pub mod HeaderInCompact
pub mod Heads
pub mod InBinary
pub mod InCompact
pub mod Numbers
pub mod Plainly
pub mod Runs
pub mod Varints
