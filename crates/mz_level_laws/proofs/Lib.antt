pub mod ClosedLemmas
pub mod SentenceProofs
pub mod LevelProofs
