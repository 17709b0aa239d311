-- Lemmas.
pub mod Ports
pub mod Walks
pub mod Telling
pub mod Fronts
pub mod Ordered
pub mod Greatest
pub mod Feeding
pub mod Fitting
pub mod Keeping
pub mod Moves
pub mod Endings
pub mod Saying
pub mod Resting
pub mod Opening
pub mod Rooms
pub mod Targets
pub mod Taking
