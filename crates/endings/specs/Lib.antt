-- How what is printed ends.
pub mod Endings
