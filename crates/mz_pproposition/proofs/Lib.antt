pub mod Formulas
pub mod PropositionSteps
pub mod Unique
