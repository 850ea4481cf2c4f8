pub mod Obligations
pub mod Done
