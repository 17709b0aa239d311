-- What answers a refused message.
pub mod Answers
