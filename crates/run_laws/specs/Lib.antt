-- What the laws of commands speak of.
pub mod Routed
pub mod Undisturbed
