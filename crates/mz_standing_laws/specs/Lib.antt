pub mod Owed
pub mod Soundly
pub mod Laws
pub mod Headings
pub mod Kinds
pub mod Added
