pub mod Patterns
pub mod Functors
