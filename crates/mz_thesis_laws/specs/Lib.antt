pub mod RowLaws
pub mod StepLaws
