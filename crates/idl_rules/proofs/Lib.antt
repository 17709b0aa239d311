-- Lemmas on noting what is refused.
pub mod Numbers
pub mod Sets
pub mod Steps
