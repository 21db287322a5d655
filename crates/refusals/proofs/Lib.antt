-- What is proved of refusals beyond the contracts.
pub mod Tests
