-- What the tables are, and what time does to them.
pub mod Tables
pub mod Sizes
pub mod Clock
