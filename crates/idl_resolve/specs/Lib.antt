-- What files may declare, and what loading them answers.
pub mod Alone
pub mod Loads
pub mod Refused
