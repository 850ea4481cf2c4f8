pub mod FreeLemmas
pub mod OccurringLemmas
pub mod NameLemmas
