pub mod Headings
pub mod Blocks
