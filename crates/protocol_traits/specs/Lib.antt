-- What readers and writers answer, in the words that all protocols share.
pub mod Stack
pub mod Places
pub mod Follow
pub mod Heads
pub mod Steps
pub mod Room
pub mod Forms
