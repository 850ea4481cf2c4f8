pub mod Sums
pub mod Options
pub mod Truth
