pub mod OpenedLemmas
pub mod AddedLemmas
pub mod AskedLemmas
pub mod OccurringLemmas
