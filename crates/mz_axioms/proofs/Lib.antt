pub mod BuiltInLemmas
pub mod AddedLemmas
pub mod BeforeLemmas
