pub mod Grounds
pub mod WalkLaws
pub mod MadeLaws
