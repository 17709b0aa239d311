-- How a text of the IDL is cut, and where it can't be.
pub mod Cutting
pub mod Faults
