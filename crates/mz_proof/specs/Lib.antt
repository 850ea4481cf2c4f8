pub mod Ahead
pub mod Case
