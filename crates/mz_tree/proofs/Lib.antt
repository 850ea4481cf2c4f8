pub mod PlaceLemmas
pub mod Views
