-- The words that several crates' definitions share.
pub mod Search
pub mod Choice
pub mod Signed
pub mod Times
