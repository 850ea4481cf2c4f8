pub mod ReadingLemmas
pub mod BlockLemmas
