pub mod LoopLemmas
pub mod ParameterLemmas
pub mod HeadingLemmas
pub mod StateLemmas
