pub mod Definientia
pub mod Owing
pub mod Headed
pub mod Atoms
pub mod Functors
