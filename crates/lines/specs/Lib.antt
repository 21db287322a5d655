-- What the printing program's lines are, byte for byte, and how bytes are put into lent room.
pub mod Text
pub mod Lines
pub mod Room
pub mod Rooms
pub mod Letters
