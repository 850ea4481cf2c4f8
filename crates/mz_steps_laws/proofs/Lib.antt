pub mod FactLemmas
pub mod ThereAreProofs
pub mod StandsProofs
pub mod ProofSteps
pub mod StatedProofs
pub mod NowProofs
pub mod HiddenProofs
pub mod BlockProofs
