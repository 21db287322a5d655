-- What the proofs of the decisions cite, and what they come to over a whole run.
pub mod Windows
pub mod Heads
pub mod Runs
pub mod Output
