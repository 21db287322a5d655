-- What follows from a verdict, by the rules of a run, and what the gateway answers.
pub mod Rules
pub mod Rulings
pub mod Answers
