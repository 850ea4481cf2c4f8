pub mod Rows
pub mod Effects
pub mod Changes
pub mod Premises
pub mod Equalities
pub mod Laws
