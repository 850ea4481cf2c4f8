pub mod Context
pub mod Changes
pub mod Gather
pub mod Grown
pub mod Occurring
