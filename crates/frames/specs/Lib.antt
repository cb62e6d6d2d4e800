-- What a reader must believe of frames, in document order.
pub mod Parsing
pub mod Lines
pub mod Printing
pub mod Serving
