pub mod Classes
pub mod Equations
pub mod Forms
pub mod Proof
