pub mod Fits
pub mod Matching
pub mod Laws
