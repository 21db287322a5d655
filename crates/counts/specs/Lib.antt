-- What an entry's count says.
pub mod Counts
