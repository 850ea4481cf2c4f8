pub mod Problem
pub mod Disjunct
pub mod Constants
pub mod Splits
pub mod Takes
pub mod Count
pub mod Refuses
pub mod Laws
