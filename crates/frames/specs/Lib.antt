-- What becomes of an Ethernet frame.
pub mod Frames
