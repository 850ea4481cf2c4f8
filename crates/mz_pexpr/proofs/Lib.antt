pub mod Marked
pub mod Pairs
pub mod Unique
