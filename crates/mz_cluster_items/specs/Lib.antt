pub mod OverLoci
pub mod Items
