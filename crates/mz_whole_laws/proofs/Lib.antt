pub mod StandingLemmas
pub mod PrivateProofs
pub mod WholeProofs
