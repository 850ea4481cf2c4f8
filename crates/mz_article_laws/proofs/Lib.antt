pub mod Determined
pub mod Outcomes
pub mod OneItems
pub mod OneOutcome
