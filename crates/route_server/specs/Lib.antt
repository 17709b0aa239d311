-- What the server does.
pub mod Calling
pub mod Filling
pub mod Lines
pub mod Matching
pub mod Saying
pub mod Serving
pub mod Spending
pub mod Steps
pub mod Turning
pub mod Working
