pub mod Parameters
pub mod StatesScheme
pub mod Answers
