-- The streams of a session.
pub mod Closed
pub mod Streams
