pub mod ChoiceLemmas
pub mod FirstLemmas
pub mod SuitsLemmas
pub mod ResolveLemmas
pub mod CoverLemmas
pub mod OneChoice
