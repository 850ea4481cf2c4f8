pub mod ReadingLemmas
pub mod PrivateLemmas
pub mod OneApplication
