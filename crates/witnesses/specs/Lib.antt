-- Runs that reach what demand 3 allows, the case of which K5 tells, and the gateways that must not pass.
pub mod Tight
pub mod Tester
pub mod MustNotPass
