pub mod RowLemmas
pub mod StructureLemmas
pub mod FindLemmas
pub mod ChainLemmas
pub mod BeginLemmas
pub mod NodeLemmas
pub mod OneRow
pub mod OneChain
