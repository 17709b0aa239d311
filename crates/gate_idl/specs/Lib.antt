-- What an IDL declares, and how it is refused.
pub mod Refusals
pub mod Opening
