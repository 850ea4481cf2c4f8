pub mod CompareLemmas
pub mod NumberingLemmas
