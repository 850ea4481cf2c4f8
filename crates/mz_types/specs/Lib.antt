pub mod Known
pub mod RowTypes
pub mod Structures
pub mod Chain
pub mod Laws
