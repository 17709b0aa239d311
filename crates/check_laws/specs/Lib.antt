-- What the check of an IDL answers, by what its files hold.
pub mod Answers
pub mod Held
