pub mod Keywords
pub mod ReferenceSteps
pub mod SimpleSteps
pub mod Taken
pub mod Unique
