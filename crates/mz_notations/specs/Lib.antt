pub mod OverLoci
pub mod Patterns
pub mod Reading
pub mod Notes
