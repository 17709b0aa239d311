-- What a document's declarations mean.
pub mod Counts
pub mod Declared
pub mod Denoted
pub mod LookUps
pub mod Sizes
pub mod TypeMeanings
