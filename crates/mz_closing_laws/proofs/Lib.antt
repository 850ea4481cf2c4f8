pub mod SwapLemmas
pub mod BackLemmas
pub mod ClosingProofs
