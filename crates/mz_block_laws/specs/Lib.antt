pub mod Orders
pub mod Passing
pub mod BlockLaws
pub mod Met
