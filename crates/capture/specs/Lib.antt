-- What a capture is, what reading it answers, and what writing one does.
pub mod Format
pub mod Capture
pub mod Whole
pub mod Writing
