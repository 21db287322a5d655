-- What a refusal is.
pub mod Refused
