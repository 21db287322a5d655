-- What is put out for a record of which it is asked why.
pub mod Values
pub mod Explanations
