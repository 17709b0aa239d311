-- The line of each frame that was refused.
pub mod Headers
pub mod Lines
pub mod Told
