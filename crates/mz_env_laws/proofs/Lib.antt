pub mod Along
pub mod ClosedProofs
pub mod EntryProofs
pub mod ClauseProofs
pub mod DerivedProofs
pub mod StatementProofs
pub mod SchemeProofs
pub mod UsedProofs
