pub mod LetLemmas
