-- What is proved of slots, lines and tags beyond the contracts.
pub mod Places
