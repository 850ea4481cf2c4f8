pub mod Classes
pub mod Forms
pub mod Parses
pub mod Sign
pub mod Words
