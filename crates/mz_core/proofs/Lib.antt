pub mod TermMaps
pub mod MapInstances
pub mod UnderTerms
pub mod AllLemmas
pub mod InForceLemmas
pub mod LawProofs
