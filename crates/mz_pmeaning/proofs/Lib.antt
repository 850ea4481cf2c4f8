pub mod Bodies
pub mod CaseSequences
pub mod CaseSteps
pub mod Conditions
pub mod MeaningSequences
pub mod MeaningSteps
pub mod Steps
