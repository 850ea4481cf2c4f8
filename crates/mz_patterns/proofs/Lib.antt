pub mod PlaceLemmas
pub mod VisibleProofs
