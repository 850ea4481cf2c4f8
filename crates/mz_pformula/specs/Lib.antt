pub mod Classes
pub mod Row
pub mod Forms
pub mod Quantified
pub mod Inside
