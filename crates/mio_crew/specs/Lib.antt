-- What is handed from one server to another.
pub mod Handing
