pub mod HeadingSequences
pub mod HeadingSteps
pub mod ModeChoices
pub mod ModeSequences
pub mod ModeSteps
pub mod Unique
