pub mod Conditions
pub mod Answers
