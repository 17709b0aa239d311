-- Messages as the bodies of HTTP requests and responses.
pub mod Counting
pub mod Fronts
pub mod Heads
pub mod Laws
pub mod Looking
pub mod Moving
pub mod Posts
pub mod Reading
pub mod Replies
pub mod Serving
pub mod Slots
pub mod Telling
