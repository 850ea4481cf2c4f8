pub mod Declarations
pub mod Atoms
pub mod Formulas
pub mod Sentences
