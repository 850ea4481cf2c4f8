pub mod CountLemmas
pub mod PairLemmas
pub mod ConstantsLemmas
pub mod TakesLemmas
pub mod OneListLemmas
pub mod SplitLemmas
pub mod SoundLemmas
