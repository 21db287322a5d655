-- What is proved of arguments beyond the contracts.
pub mod Numbers
