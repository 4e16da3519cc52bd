pub mod Numerals
pub mod Printable
pub mod Lines
