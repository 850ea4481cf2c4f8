pub mod Placed
pub mod Guards
pub mod Contexts
pub mod Existentials
pub mod Covers
pub mod Modes
