-- Whether a message meets what is declared of it, in the words of trees.
pub mod Meeting
pub mod Breaking
pub mod Checkings
