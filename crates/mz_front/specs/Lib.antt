pub mod Told
pub mod Front
pub mod Laws
