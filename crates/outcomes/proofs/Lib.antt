-- One outcome for each contract.
pub mod Outcomes
