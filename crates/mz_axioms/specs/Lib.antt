pub mod Names
pub mod Axioms
pub mod AxiomList
pub mod BuiltIn
pub mod Library
pub mod Checker
