pub mod BodyLemmas
pub mod InsideLemmas
pub mod PrivateLemmas
