-- What a command starts from, and how it ends.
pub mod Calls
pub mod Endings
pub mod Lines
pub mod Outside
pub mod Served
pub mod Starting
pub mod Streams
pub mod Writing
