-- What every call keeps true of slots and counts.
pub mod Apart
pub mod Account
pub mod Slots
pub mod Lawful
pub mod Writes
pub mod Own
pub mod Invariant
pub mod Packets
pub mod Runs
