pub mod OrderLemmas
pub mod PassProofs
pub mod NowProofs
pub mod StepProofs
pub mod BlockProofs
pub mod OrderProofs
pub mod MetProofs
pub mod EqualityProofs
