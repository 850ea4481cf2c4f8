pub mod BoundProofs
pub mod AtomProofs
pub mod DeclarationProofs
pub mod FormulaProofs
pub mod CallProofs
pub mod StepProofs
