pub mod Agreeing
pub mod Meeting
pub mod Running
pub mod Uniform
pub mod Bodies
pub mod Checked
pub mod JsonChecked
