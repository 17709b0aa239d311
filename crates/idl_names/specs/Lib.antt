-- The files of an IDL, and what a name means in them.
pub mod Cycles
pub mod Files
pub mod Index
pub mod Marks
pub mod Meaning
pub mod Paths
pub mod Places
pub mod Refusals
pub mod Sets
pub mod Targets
pub mod Told
