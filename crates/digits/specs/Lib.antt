-- What a reader must believe of hexadecimal fields.
pub mod Digits
