pub mod ReadingLaws
pub mod CallLaws
pub mod StepLaws
