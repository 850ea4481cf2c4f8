pub mod ItLemmas
pub mod EachLemmas
pub mod DefiniensLemmas
pub mod ResultLemmas
