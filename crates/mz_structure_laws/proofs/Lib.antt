pub mod KnownProofs
pub mod ClosedProofs
pub mod FieldProofs
pub mod OneProofs
pub mod KindProofs
