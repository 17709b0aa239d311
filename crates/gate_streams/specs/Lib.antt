-- What is read, written and reported by the commands that work on streams.
pub mod Checking
pub mod Drilling
pub mod Findings
pub mod Handling
pub mod Lines
pub mod Outcome
pub mod Progress
pub mod Rooms
pub mod Running
pub mod Streaming
pub mod Terms
pub mod Working
