-- The line that shows a message, and how it is written in pieces.
pub mod Texts
pub mod Line
pub mod Pieces
pub mod Shown
pub mod Turns
pub mod Inside
