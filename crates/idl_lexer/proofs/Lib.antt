pub mod Reading
pub mod Spanned
