pub mod Entries
pub mod Used
pub mod LetInLaws
pub mod DerivedLaws
