-- What a hub tells, and what its calls do to that.
pub mod Hubs
pub mod Meaning
