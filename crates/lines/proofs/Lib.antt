-- What the proofs of the lines cite.
pub mod Rooms
mod Digits
mod Signs
pub mod Whole
