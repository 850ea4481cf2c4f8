pub mod Scope
pub mod Names
pub mod Closing
