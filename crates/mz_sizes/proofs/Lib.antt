pub mod DepthLemmas
pub mod SpentLemmas
