pub mod SpendingLemmas
pub mod CallLemmas
