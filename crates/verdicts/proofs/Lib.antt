-- What is proved of verdicts beyond the contracts.
pub mod Records
pub mod Slips
