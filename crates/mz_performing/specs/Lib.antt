pub mod Blocks
pub mod Begun
pub mod Nows
pub mod Splits
