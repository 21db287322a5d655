-- What is put out for a record.
pub mod Outputs
