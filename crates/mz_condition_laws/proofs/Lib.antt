pub mod OneConditions
pub mod LociLemmas
pub mod SplitLemmas
pub mod ConditionProofs
