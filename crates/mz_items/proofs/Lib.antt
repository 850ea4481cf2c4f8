pub mod LocusLemmas
pub mod RowLemmas
pub mod ItemLemmas
pub mod ClosedLaws
