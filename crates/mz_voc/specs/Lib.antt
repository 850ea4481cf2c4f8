pub mod Lines
pub mod Spelled
pub mod Symbol
pub mod Vocabulary
