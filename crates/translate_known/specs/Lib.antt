-- What the ways through a message by forms take.
pub mod Laid
pub mod Quick
