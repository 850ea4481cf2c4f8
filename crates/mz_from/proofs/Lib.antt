pub mod LetterLemmas
pub mod VerdictLemmas
pub mod OneVerdict
pub mod KeptLemmas
