pub mod Letters
pub mod Verdict
pub mod Kept
pub mod Laws
