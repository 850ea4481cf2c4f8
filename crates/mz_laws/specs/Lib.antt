pub mod Lacking
pub mod StatementLaws
pub mod DerivationLaws
