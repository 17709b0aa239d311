-- What is shown of a frame in the words of the grammars.
pub mod Showings
