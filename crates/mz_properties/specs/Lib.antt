pub mod Forms
pub mod Properties
