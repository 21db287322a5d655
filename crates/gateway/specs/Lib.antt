-- What the gateway's calls do.
pub mod Packets
pub mod Calls
pub mod Why
