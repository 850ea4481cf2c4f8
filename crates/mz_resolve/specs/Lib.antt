pub mod Spending
pub mod Calls
pub mod Answers
