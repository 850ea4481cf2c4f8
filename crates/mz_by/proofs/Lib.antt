pub mod ClosedSound
pub mod OneVerdict
pub mod ExamineLemmas
pub mod LimitLemmas
