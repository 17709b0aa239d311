pub mod Giving
pub mod Sessions
pub mod Unframed
pub mod Posts
pub mod Covering
pub mod Unbroken
pub mod Words
