-- The verdict on a frame in the words of the grammars.
pub mod Following
pub mod Spellings
pub mod Bars
pub mod Rounds
pub mod Verdicts
