pub mod StatementProofs
pub mod DerivationProofs
