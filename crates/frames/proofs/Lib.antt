-- What the proof of a frame's judgment cites.
pub mod Cases
