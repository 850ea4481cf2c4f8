pub mod ForcedSound
pub mod SortedLemmas
pub mod ForceLemmas
pub mod NextLemmas
