-- A router between a client and the upstreams of several services.
pub mod Rules
pub mod Standing
pub mod Inboxes
pub mod Fits
pub mod Telling
pub mod Stands
pub mod Steps
pub mod Ends
pub mod Told
pub mod All
pub mod Router
pub mod Routing
pub mod Judging
pub mod Setups
pub mod Working
