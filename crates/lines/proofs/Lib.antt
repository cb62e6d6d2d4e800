-- Laws of lists of lines.
pub mod Lines
