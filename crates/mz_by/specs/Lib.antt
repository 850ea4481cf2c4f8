pub mod Verdict
pub mod Examination
pub mod Laws
