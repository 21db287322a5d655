-- What is proved of answers in plain numbers beyond the contracts.
pub mod Keeps
pub mod Numbers
pub mod Captures
