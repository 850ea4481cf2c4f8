pub mod KeepLemmas
pub mod BoundLemmas
pub mod SaidLemmas
