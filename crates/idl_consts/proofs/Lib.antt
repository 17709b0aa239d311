mod Chains
mod Followed
mod Trailing
mod Judged
mod Kept
mod Once
mod Resolving
mod Halves
