pub mod Determined
pub mod Laws
