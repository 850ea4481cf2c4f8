pub mod ClosingLemmas
pub mod NameLemmas
pub mod ScopeLemmas
