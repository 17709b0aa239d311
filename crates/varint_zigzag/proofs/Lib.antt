-- Lemmas.
pub mod Carrying
pub mod Narrow
pub mod Ends
pub mod Fronts
pub mod Groups
pub mod Laid
pub mod Meaning
pub mod Shortest
pub mod Tops
pub mod Words
