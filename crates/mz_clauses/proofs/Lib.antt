pub mod GroupLemmas
pub mod GuardLemmas
pub mod TriggerLemmas
pub mod SameLemmas
pub mod StructureLemmas
