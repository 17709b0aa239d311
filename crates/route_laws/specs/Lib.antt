-- What a server has routed.
pub mod Routed
