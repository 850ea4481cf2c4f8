pub mod Classes
pub mod Ended
pub mod Forms
