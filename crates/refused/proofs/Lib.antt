-- What is proved of refusals.
pub mod Told
