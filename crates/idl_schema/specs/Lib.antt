-- The schema of the files of an IDL.
pub mod Adding
pub mod Fields
pub mod Kept
pub mod Meant
pub mod Methods
pub mod Numbers
pub mod Schema
pub mod Shares
pub mod Stands
pub mod Indexes
pub mod Types
