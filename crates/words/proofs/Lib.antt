-- What callers' proofs cite of numbers made of bytes, and of bytes made of numbers.
pub mod Words
pub mod Layouts
