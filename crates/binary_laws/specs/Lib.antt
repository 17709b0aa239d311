-- What it is to read a whole frame.
pub mod Called
pub mod Faults
pub mod Reads
pub mod Refused
pub mod Stated
pub mod Written
