pub mod CutLemmas
pub mod HeadLemmas
pub mod KnownLemmas
pub mod LongestLemmas
pub mod OneCutLemmas
pub mod PieceLemmas
pub mod TableLemmas
