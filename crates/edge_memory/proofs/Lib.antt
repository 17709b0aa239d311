pub mod Moved
pub mod Reading
