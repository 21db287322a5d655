-- What the proofs of reading and writing cite, and the theorems over whole captures.
pub mod Parts
pub mod Readings
pub mod Whole
pub mod Pieces
pub mod Writings
pub mod Roundtrip
pub mod Refusals
