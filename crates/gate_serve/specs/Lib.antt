-- What a server does.
pub mod Peers
pub mod Posts
pub mod Serving
