-- Which refusal a call gives before any header is looked at.
pub mod Refusals
