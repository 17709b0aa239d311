-- What it is to read a whole frame, to refuse one, and to write a message.
pub mod Called
pub mod Extent
pub mod Faults
pub mod Faulty
pub mod Fronts
pub mod Reads
pub mod Refused
pub mod Written
