-- What is read, written and reported at each command.
pub mod Lines
pub mod Routed
pub mod Running
