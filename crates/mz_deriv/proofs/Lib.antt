pub mod NodeLemmas
pub mod CheckLemmas
