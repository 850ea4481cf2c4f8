pub mod OwedLemmas
