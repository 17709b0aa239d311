-- The Compact protocol: its grammar, one item of bytes, the reader and its step, and what is written.
pub mod Codes
pub mod Grammar
pub mod Laws
pub mod Varints
pub mod Forms
pub mod WriteForms
pub mod Plain
pub mod Reading
pub mod Scan
