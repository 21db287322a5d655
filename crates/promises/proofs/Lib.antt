-- The theorems.
pub mod Bench
pub mod Cold
pub mod Demand3
pub mod Memory
