-- What the workers of a crew do, each for itself and all together.
pub mod Workers
pub mod Serving
pub mod Routing
