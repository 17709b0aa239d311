-- Bytes, pieces and tokens of an IDL text.
pub mod Bytes
pub mod Grammar
pub mod Pieces
pub mod Tokens
