-- What the entries of the address table say.
pub mod Entries
