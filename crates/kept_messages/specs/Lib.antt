-- A message that is kept as its bytes stand.
pub mod Kept
