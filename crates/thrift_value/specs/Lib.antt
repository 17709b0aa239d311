-- Kinds, events and trees as clauses see them.
pub mod Items
pub mod Kinds
pub mod Trees
