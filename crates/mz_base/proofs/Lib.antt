pub mod NameEqual
pub mod NameLemmas
pub mod NameOrder
