pub mod Formulas
pub mod Dependencies
