-- What the proofs of an output cite, and that it is put whole.
pub mod Cases
pub mod Whole
