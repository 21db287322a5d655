-- What is proved of rulings beyond the contracts.
pub mod Steps
pub mod Slips
