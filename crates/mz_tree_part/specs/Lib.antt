pub mod EachLevel
pub mod Keywords
pub mod Levels
pub mod Rules
pub mod Spell
