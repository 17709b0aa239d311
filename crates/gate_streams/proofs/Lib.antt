-- Lemmas.
pub mod Checked
pub mod Draining
pub mod Finishing
pub mod Gathering
pub mod Outcome
pub mod Progress
pub mod Running
pub mod Sending
pub mod Treating
pub mod Turned
