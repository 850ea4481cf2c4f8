pub mod Classes
pub mod Forms
pub mod Optional
pub mod Words
