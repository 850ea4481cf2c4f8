pub mod Values
pub mod Order
