pub mod Hopeless
pub mod Goals
pub mod States
pub mod Kept
