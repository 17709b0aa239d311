-- Messages on a stream, in frames or on lines.
pub mod Buffers
pub mod Cuts
pub mod Front
pub mod Lines
