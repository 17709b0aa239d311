-- The messages that are drawn from a number, and how they are spelled.
pub mod Draws
pub mod Messages
pub mod Events
pub mod Spellings
pub mod Outcome
pub mod Ends
pub mod Views
pub mod Writers
pub mod Rooms
