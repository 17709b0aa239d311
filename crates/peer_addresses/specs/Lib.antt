-- The addresses of a server's peers, as words spell them.
pub mod Places
pub mod Octets
pub mod Segments
pub mod Names
pub mod Addresses
