pub mod UsableProofs
pub mod ChangeProofs
pub mod Outcomes
pub mod AppliedProofs
pub mod TermProofs
pub mod TypeProofs
