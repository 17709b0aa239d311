-- What the laws say.
pub mod Served
pub mod Given
pub mod Answered
