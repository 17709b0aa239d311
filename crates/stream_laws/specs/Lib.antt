-- What a stream gives in the words of the grammars.
pub mod Streams
pub mod Sessions
pub mod Posts
pub mod Covering
