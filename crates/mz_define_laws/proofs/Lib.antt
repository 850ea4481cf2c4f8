pub mod KeepProofs
pub mod OneProofs
pub mod KindProofs
