-- What the laws say.
pub mod Cutting
pub mod Wrapped
