-- Where typedefs of typedefs end.
pub mod AliasLinks
