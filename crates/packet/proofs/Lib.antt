-- What is proved of reading beyond the contracts.
pub mod Flags
pub mod Order
pub mod Rest
