-- What a reader must believe of lists of lines.
pub mod Room
