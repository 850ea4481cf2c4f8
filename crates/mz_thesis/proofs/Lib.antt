pub mod TableLemmas
pub mod UnfoldingLemmas
pub mod PartLemmas
pub mod RowLemmas
pub mod AppliedLemmas
pub mod OneValue
