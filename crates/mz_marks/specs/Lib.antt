pub mod Suffix
pub mod IsSuffix
pub mod Marks
pub mod PendingMark
pub mod TokenClass
