pub mod WordSteps
pub mod ConditionSteps
pub mod RegistrationSteps
pub mod SchemeSteps
pub mod Unique
