pub mod Keys
pub mod KeyLaws
pub mod Rows
pub mod Unfoldings
pub mod Cited
pub mod Environment
