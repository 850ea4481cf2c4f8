pub mod Unfolding
pub mod Rows
pub mod Applied
pub mod Cases
pub mod Laws
