pub mod Letters
pub mod Aside
