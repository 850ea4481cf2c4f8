pub mod AnswerLemmas
pub mod HeadingLemmas
pub mod LimitLemmas
pub mod OwingLemmas
