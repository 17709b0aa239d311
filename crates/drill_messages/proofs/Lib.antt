mod Drawing
mod Spelling
mod Rounds
mod Takes
