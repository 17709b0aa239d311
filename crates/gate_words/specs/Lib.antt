-- What the words of a command name.
pub mod Same
pub mod Protos
pub mod Peers
pub mod Lines
pub mod Options
pub mod Shares
pub mod Serving
pub mod Targets
pub mod Routing
pub mod Commands
