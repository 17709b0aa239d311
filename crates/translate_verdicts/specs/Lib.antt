-- What becomes of a frame that is translated.
pub mod Body
pub mod Judged
pub mod Positions
pub mod Routes
pub mod Texts
