pub mod Walks
pub mod OneIntroduction
pub mod OneCompact
pub mod OneAhead
