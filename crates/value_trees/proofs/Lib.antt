pub mod Accepted
pub mod Begun
pub mod Fronts
pub mod Gathered
pub mod Kept
pub mod Levels
pub mod Pushed
pub mod Told
