-- What the objects in memory do, exactly.
pub mod Fan
pub mod FanLaws
pub mod FanPorts
pub mod Files
pub mod Hub
pub mod Laws
pub mod Link
pub mod Streams
