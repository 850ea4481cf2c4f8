pub mod FirstTheorem
pub mod Rejecting
