-- What is declared at each place of a body, and how it changes from event to event.
pub mod Stack
pub mod Places
pub mod Positions
pub mod Known
