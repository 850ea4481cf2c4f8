pub mod Parts
pub mod Values
pub mod Bases
pub mod Terms
pub mod Adjectives
pub mod Types
pub mod Laws
