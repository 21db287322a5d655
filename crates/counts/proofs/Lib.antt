-- What is proved of counts beyond the contracts.
pub mod Counts
pub mod Clamps
