-- What is answered to the question why, in plain numbers.
pub mod Plain
