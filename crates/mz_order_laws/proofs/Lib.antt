pub mod BoundLemmas
pub mod MadeLemmas
