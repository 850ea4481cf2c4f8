pub mod StandingLemmas
pub mod StoredLemmas
pub mod ReadyLemmas
pub mod ReachLemmas
pub mod ProgressLemmas
pub mod OrderLemmas
pub mod VerdictLemmas
