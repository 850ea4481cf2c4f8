pub mod OneNumber
pub mod OneVerdict
pub mod ProfileLemmas
