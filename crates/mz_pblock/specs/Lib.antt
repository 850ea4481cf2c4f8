pub mod Classes
pub mod Forms
