-- What a cold start writes.
pub mod Cold
