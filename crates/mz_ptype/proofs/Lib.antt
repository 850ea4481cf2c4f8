pub mod Optional
pub mod AdjectiveSteps
pub mod TypeSteps
pub mod DeclarationSteps
pub mod Unique
