-- How a session's frames are judged.
pub mod Setting
pub mod Client
pub mod Upstream
pub mod Quick
pub mod Rules
pub mod Setups
