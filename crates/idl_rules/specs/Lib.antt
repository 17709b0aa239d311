-- The refusals of an IDL file, and the least of several.
pub mod Doubles
pub mod Ids
pub mod Leasts
pub mod Order
pub mod Rows
pub mod Rules
pub mod Values
