-- What the words of JSON are, and what their scans have to tell.
pub mod Judged
pub mod Strings
