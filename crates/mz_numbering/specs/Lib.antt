pub mod Entry
pub mod Numbering
