pub mod SpellLemmas
pub mod StructureLemmas
