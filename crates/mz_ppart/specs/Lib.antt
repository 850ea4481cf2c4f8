pub mod Classes
pub mod Forms
pub mod StructureForms
pub mod WordLists
