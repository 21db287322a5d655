-- What a connection record says.
pub mod Records
