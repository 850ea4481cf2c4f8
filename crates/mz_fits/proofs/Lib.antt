pub mod CountLemmas
pub mod FitLemmas
pub mod LimitLemmas
pub mod MatchLemmas
pub mod SoundLemmas
pub mod OneMatch
pub mod MatchSound
