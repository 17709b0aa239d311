-- Decimal numbers, as words spell them.
pub mod Same
pub mod Numbers
