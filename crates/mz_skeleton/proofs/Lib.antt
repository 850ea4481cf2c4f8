pub mod SliceLemmas
pub mod LetLemmas
pub mod AssumeLemmas
pub mod TakeLemmas
