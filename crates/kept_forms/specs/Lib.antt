-- What of a message stands in a frame as the writer of its own protocol would lay it.
pub mod InBinary
pub mod InCompact
pub mod Keeping
pub mod Shortest
