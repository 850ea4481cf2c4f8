pub mod Declarations
pub mod Propositions
pub mod Joined
pub mod Described
pub mod Named
