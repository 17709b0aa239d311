mod Reaching
mod Keeping
