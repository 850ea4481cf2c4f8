pub mod LetterProofs
pub mod ScopeProofs
pub mod InsideProofs
pub mod KeepProofs
pub mod PlaceProofs
pub mod OneProofs
pub mod KindProofs
