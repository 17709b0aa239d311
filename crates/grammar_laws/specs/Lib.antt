-- What the grammar of the IDL says of the texts that are parsed.
pub mod Depth
pub mod Faults
pub mod Parsing
