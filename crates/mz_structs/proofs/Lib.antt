pub mod LedLemmas
pub mod AncestorLemmas
pub mod FieldLemmas
pub mod HeadingLemmas
