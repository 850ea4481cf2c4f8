pub mod Fields
pub mod Structures
