pub mod HeadingLemmas
pub mod BlockLemmas
