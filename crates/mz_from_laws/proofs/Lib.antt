pub mod TypeLaws
pub mod FromProofs
