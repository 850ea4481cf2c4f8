pub mod DifferenceLemmas
pub mod SearchLemmas
pub mod InputLemmas
pub mod DeskLemmas
pub mod OwnLemmas
pub mod LookLemmas
pub mod AnswerLemmas
