pub mod SuffixLemmas
pub mod MarkLemmas
pub mod MarkAll
