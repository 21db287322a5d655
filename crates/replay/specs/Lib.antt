-- What becomes of a capture's records.
pub mod Replay
