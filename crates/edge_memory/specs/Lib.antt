-- What a stream in memory tells.
pub mod Streams
