-- The verdict on a frame for two protocols.
pub mod Pairs
pub mod Methods
