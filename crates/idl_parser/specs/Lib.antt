-- What the grammar sees of a text, and what each part of it reads.
pub mod Cpp
pub mod Declarations
pub mod Documents
pub mod Fields
pub mod Functions
pub mod Grammar
pub mod Lexemes
pub mod Marks
pub mod Notes
pub mod Run
pub mod Seeing
pub mod Seen
pub mod Types
pub mod Values
pub mod Words
