pub mod Bodies
pub mod Shown
