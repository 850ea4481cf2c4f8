pub mod Gathered
pub mod Checked
pub mod Run
pub mod Laws
pub mod Steps
