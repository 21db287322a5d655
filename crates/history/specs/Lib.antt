-- What a run is, and what its history says.
pub mod Runs
pub mod Told
pub mod Fresh
pub mod Examples
