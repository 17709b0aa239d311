-- Lemmas.
pub mod Told
pub mod Strings
pub mod Items
pub mod Frames
pub mod Ends
pub mod Bytes
pub mod Turns
pub mod Weights
