pub mod SymbolLemmas
pub mod ShareLemmas
pub mod FindLemmas
pub mod VisitLemmas
pub mod FaultLemmas
pub mod WalkLemmas
pub mod OneOutcome
pub mod ArticleLemmas
