pub mod Opened
pub mod Definientia
pub mod Asked
