-- What callers' proofs cite of the settings.
pub mod Ranges
