-- What a side list is, and which side an address is on.
pub mod Lists
