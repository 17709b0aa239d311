-- Files are texts.
pub mod Answered
pub mod Dotless
pub mod Schemas
pub mod Texts
