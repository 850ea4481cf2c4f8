pub mod EffectLemmas
pub mod OneEffect
