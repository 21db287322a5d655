-- The laws that several crates' proofs cite.
pub mod Tests
pub mod Arms
pub mod Search
pub mod Table
pub mod Sweep
pub mod Places
pub mod Signed
pub mod Times
