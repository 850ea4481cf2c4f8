pub mod Guards
pub mod Groups
pub mod DefinitionClauses
pub mod RegistrationClauses
pub mod StructureClauses
pub mod SameTypes
pub mod PropertyClauses
pub mod Clauses
