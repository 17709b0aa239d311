-- When a fault may be answered, and lists that are bytes.
pub mod Bytes
pub mod Causes
