pub mod ClosedLemmas
pub mod SelectorLemmas
pub mod AggregateLemmas
