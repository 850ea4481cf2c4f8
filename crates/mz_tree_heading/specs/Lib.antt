pub mod EachLevel
pub mod Levels
pub mod Rules
pub mod Spell
