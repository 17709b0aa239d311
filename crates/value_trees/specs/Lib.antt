-- Values as trees, what is told of them, and what is gathered, as clauses see them.
pub mod Bodies
pub mod Coding
pub mod Counts
pub mod Gathering
pub mod Sizes
pub mod Stands
pub mod Telling
pub mod Views
