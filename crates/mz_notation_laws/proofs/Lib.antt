pub mod ClosedProofs
pub mod KeepProofs
pub mod OneProofs
