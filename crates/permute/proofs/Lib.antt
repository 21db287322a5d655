-- What is proved of the permutation beyond the contracts.
pub mod Nibbles
pub mod Rotations
pub mod Tables
pub mod Inverse
