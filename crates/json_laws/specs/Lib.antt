-- What a body's positions are by the declarations, and what it is to read a whole frame.
pub mod Positions
pub mod Fronts
pub mod Reads
pub mod Refused
pub mod Stated
pub mod Written
pub mod Faults
pub mod Plans
pub mod Firsts
