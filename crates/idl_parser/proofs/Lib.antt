pub mod Counting
pub mod Inside
pub mod Levels
pub mod Listed
pub mod Running
pub mod Views
