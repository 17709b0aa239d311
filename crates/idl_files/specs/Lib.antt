-- The names of included files, and the walk over files.
pub mod Answers
pub mod Listing
pub mod Names
pub mod Settled
pub mod Walk
