-- That they do, that K5's case meets the premises of `opens_nothing`, and that no gateway of those that must not pass meets the contracts.
pub mod Permuted
pub mod Tight
pub mod Tester
pub mod MustNotPass
