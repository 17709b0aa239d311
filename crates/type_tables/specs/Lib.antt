-- What a schema declares, as lists, and what is found in them.
pub mod Adding
pub mod Declarations
pub mod Fields
pub mod Kinds
pub mod Known
pub mod Members
pub mod Names
pub mod RootCount
pub mod Roots
pub mod Services
pub mod Structs
