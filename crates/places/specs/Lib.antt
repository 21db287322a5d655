-- Where things stand in the tables.
pub mod Places
