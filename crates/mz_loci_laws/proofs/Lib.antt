pub mod OverProofs
pub mod DeclaredProofs
pub mod BlockProofs
