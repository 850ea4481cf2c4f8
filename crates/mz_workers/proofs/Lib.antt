pub mod Crossing
pub mod FinishLemmas
