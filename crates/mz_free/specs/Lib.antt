pub mod Occurring
pub mod Free
