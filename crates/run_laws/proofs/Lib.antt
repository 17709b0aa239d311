-- Lemmas.
pub mod Complete
pub mod Posting
pub mod Routed
pub mod Served
pub mod Started
pub mod Wrapped
