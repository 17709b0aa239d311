pub mod Ends
pub mod BinaryFronts
pub mod CompactFronts
pub mod Cuts
pub mod Wrapped
