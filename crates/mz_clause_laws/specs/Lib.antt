pub mod RowLaws
pub mod PropertyLaws
pub mod ClausesLaw
