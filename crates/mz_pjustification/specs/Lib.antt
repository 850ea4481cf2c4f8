pub mod Forms
pub mod Grammar
pub mod Keyword
pub mod Words
