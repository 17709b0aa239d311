pub mod Ids
pub mod Shelves
pub mod Declared
pub mod Levels
pub mod First
pub mod Frames
pub mod Weights
