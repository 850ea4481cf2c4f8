pub mod OccurringLemmas
pub mod PlaceLemmas
pub mod RoundLemmas
