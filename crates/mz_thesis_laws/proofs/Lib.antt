pub mod StatementProofs
pub mod RowProofs
pub mod MatchKeeps
pub mod UnfoldProofs
pub mod KeepProofs
pub mod StepProofs
