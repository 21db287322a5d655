-- What is proved of the texts beyond the contracts.
pub mod Filled
mod Refusals
pub mod Short
pub mod Sentences
