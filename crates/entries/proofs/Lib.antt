-- What is proved of entries beyond the contracts.
pub mod Lines
pub mod Readback
pub mod Decay
pub mod Once
