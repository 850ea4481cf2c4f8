pub mod Bytes
pub mod Name
pub mod NamedText
pub mod Place
pub mod RuleCode
pub mod Status
pub mod TokenList
pub mod Words
