-- What a packet's headers say.
pub mod Kinds
pub mod Header
