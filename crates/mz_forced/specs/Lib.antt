pub mod Forced
pub mod Force
pub mod Sorted
pub mod Added
pub mod Laws
