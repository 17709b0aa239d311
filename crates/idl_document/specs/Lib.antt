-- What a document is, without where it lies in memory.
pub mod Falls
pub mod Item
pub mod Items
pub mod Trees
