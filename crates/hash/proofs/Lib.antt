mod Folded
mod Halves
pub mod Range
mod Xor
