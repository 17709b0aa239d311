pub mod Computed
pub mod PlaceWords
pub mod LaidWords
pub mod Utf8
