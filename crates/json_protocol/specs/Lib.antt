-- The JSON protocol as definitions: words, items, the steps of the reader and what the writer writes.
pub mod Scan
pub mod Words
pub mod Values
pub mod Reading
pub mod Head
pub mod Laws
pub mod Writing
pub mod Weights
pub mod WriteForms
pub mod ReadForms
pub mod Grammar
