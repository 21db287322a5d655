-- What the tally of verdicts says.
pub mod Tally
