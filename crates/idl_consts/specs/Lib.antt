-- What a value of an IDL may be where a type is asked for, and what is refused.
pub mod Rows
pub mod Meant
pub mod Fitting
pub mod Keys
pub mod Course
pub mod Pieces
pub mod Following
pub mod Told
pub mod Trails
pub mod Knowing
pub mod Views
pub mod Words
