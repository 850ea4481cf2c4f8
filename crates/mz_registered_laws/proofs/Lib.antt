pub mod OneProofs
pub mod GrowProofs
pub mod OverProofs
pub mod TheseProofs
pub mod OwedProofs
pub mod KeepProofs
