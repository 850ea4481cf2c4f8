pub mod LabelLemmas
pub mod NumberLemmas
pub mod SymListLemmas
pub mod IndexLemmas
pub mod ClassLemmas
pub mod CloseLemmas
