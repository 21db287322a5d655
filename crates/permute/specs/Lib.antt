-- What the permutation is.
pub mod Permutation
