-- What is proved of connection records beyond the contracts.
pub mod Parts
pub mod Ages
