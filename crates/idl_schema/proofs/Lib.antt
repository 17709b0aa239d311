-- Lemmas on how a schema grows.
pub mod Apart
pub mod Counting
pub mod Following
pub mod Growing
pub mod Kept
pub mod Resolving
pub mod Listing
pub mod Meaning
pub mod Servicing
pub mod Sharing
