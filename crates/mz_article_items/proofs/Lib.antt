pub mod ItemLemmas
pub mod PartLemmas
pub mod AnswerLemmas
