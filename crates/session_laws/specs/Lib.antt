-- What goes over a session, in the words of the grammars.
pub mod Saying
pub mod Exchange
pub mod Streaming
pub mod Carrying
pub mod Serving
