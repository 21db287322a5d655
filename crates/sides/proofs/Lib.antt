-- What is proved of side lists beyond the contracts.
pub mod Chunks
pub mod Steps
pub mod Longest
pub mod Winners
