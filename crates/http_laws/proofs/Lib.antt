pub mod Cuts
pub mod Served
pub mod Given
pub mod Answered
pub mod Owing
