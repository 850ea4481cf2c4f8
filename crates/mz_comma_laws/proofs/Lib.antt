pub mod OnlyBehind
pub mod Atoms
pub mod Formulas
pub mod Longer
