pub mod SizeLemmas
pub mod BesideLemmas
pub mod WithinLemmas
pub mod InstanceLemmas
pub mod StatementLemmas
pub mod ExpansionLemmas
pub mod TypeLemmas
