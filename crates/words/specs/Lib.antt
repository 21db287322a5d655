-- What a number made of bytes is, and the bytes of a number.
pub mod Words
pub mod Layouts
