-- What the promises are stated with.
pub mod Bench
pub mod Demand3
pub mod Memory
