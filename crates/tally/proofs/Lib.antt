-- What is proved of the tally beyond the contracts.
pub mod Totals
