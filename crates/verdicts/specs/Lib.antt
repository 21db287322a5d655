-- Which verdict a packet of ours gets, and what that makes of its record.
pub mod Verdicts
