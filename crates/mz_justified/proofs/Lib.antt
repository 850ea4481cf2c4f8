pub mod GroundLemmas
pub mod KeptLemmas
pub mod OweLemmas
