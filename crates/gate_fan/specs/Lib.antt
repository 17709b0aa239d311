-- What a fan tells, and what its calls do to that.
pub mod Fans
pub mod Meaning
