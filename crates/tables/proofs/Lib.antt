-- What is proved of the tables beyond the contracts.
pub mod Powers
pub mod Edges
pub mod Jumps
