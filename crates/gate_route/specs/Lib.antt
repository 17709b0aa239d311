-- What a router does.
pub mod Routes
