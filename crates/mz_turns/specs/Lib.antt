pub mod Row
pub mod Dependencies
pub mod Library
pub mod Verdicts
pub mod Machine
pub mod Order
