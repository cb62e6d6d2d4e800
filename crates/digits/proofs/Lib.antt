-- Laws of hexadecimal fields.
pub mod Single
pub mod Filling
pub mod Reading
pub mod Placing
pub mod Back
pub mod Tight
