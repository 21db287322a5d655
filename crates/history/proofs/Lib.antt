-- What is proved of histories.
pub mod Live
pub mod Examples
