-- The Binary protocol as clauses see it: its grammar, what a reader answers and what a writer writes.
pub mod Codes
pub mod Grammar
pub mod Scan
pub mod Heads
pub mod Reading
pub mod Plain
pub mod Laws
pub mod Forms
pub mod WriteForms
