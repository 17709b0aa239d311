mod Nested
mod Sound
mod Unknown
