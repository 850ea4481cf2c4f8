pub mod KnownDependencies
pub mod FormulaProofs
pub mod LibraryRests
