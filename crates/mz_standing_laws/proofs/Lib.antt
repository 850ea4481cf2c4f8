pub mod OwedProofs
pub mod GroundProofs
pub mod ContextProofs
pub mod ItemProofs
pub mod HeadingProofs
pub mod KindProofs
pub mod AddedProofs
