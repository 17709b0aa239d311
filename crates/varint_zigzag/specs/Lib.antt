-- Numbers as bytes, and signed numbers as unsigned ones.
pub mod Bounds
pub mod Standing
pub mod Places
pub mod Varint
pub mod Zigzag
