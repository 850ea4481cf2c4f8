pub mod Bases
pub mod Parsed
pub mod Loops
pub mod Operands
pub mod Results
pub mod Signs
pub mod Steps
pub mod Unique
