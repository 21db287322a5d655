-- What the proofs of a replay cite.
pub mod Cases
pub mod SetUp
