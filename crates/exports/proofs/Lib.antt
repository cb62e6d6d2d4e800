-- What is shown of the exported calls.
pub mod Tight
