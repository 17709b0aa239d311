-- Names of methods with the names of their services.
pub mod Names
