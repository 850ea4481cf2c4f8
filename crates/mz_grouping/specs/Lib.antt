pub mod Grouping
pub mod Open
