-- Values that grow at their end.
pub mod Pushed
