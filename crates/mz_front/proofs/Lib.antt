pub mod StageLemmas
pub mod TableLemmas
pub mod OneFront
