-- Lemmas.
pub mod Calls
pub mod Clients
pub mod Copied
pub mod Counted
pub mod Cuts
pub mod Fitting
pub mod Handing
pub mod Heads
pub mod Held
pub mod Looks
pub mod Naming
pub mod Places
pub mod Served
pub mod Slotted
pub mod Turning
pub mod Wrapping
