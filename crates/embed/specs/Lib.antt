-- What the library for C and Rust hands out.
pub mod Plain
