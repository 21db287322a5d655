-- What is proved of the reported facts.
pub mod Reasons
