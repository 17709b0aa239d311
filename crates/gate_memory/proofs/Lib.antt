-- Lemmas.
pub mod Bytes
pub mod Events
pub mod FanBytes
pub mod FanEvents
pub mod FanSessions
pub mod Links
pub mod Moved
pub mod Named
pub mod Sessions
