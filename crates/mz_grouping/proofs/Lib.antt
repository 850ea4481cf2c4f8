pub mod GroupingLemmas
pub mod NeighbourLemmas
pub mod OpenedLemmas
pub mod StretchLemmas
