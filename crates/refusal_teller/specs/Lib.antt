-- Lines of refused frames that are told as they are refused.
pub mod Refused
pub mod Tells
pub mod Laws
