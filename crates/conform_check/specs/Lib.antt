-- Whether a message meets what is declared of it, and the first place where it doesn't.
pub mod Inside
pub mod Breaches
pub mod Checking
pub mod Fitting
pub mod Texts
