-- What the words of the command line name, and what is measured.
pub mod Words
pub mod Measured
