-- What is proved of the gateway beyond the contracts.
pub mod Steps
pub mod Refusals
pub mod Jumps
pub mod Gaps
pub mod Openings
pub mod Explained
pub mod Agreement
