pub mod Counts
pub mod Entries
pub mod Standing
pub mod Table
pub mod Stored
pub mod Order
