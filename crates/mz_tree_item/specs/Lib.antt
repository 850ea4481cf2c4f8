pub mod EachLevel
pub mod Ends
pub mod Grammar
pub mod Levels
pub mod Rules
pub mod Spell
