pub mod Sequence
pub mod OneJustification
