pub mod IndexLemmas
pub mod MemberLemmas
pub mod RowProofs
