-- What the quick way takes.
pub mod Levels
