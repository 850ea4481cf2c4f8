pub mod AgreeLemmas
pub mod BranchLemmas
pub mod HopelessLemmas
pub mod KeptLemmas
pub mod PartLemmas
pub mod PickLemmas
pub mod SettleLemmas
pub mod StateLemmas
