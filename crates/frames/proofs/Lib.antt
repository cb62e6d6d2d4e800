-- Laws of lines.
pub mod Own
pub mod Only
pub mod Buffers
pub mod Room
pub mod Tight
