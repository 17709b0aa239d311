-- What becomes of a message whose service's name is left out.
pub mod Methods
