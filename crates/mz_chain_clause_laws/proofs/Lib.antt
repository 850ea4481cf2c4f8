pub mod MemberLemmas
pub mod PlainProofs
pub mod ChainClauseProofs
