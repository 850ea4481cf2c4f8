pub mod Usable
pub mod Whole
pub mod ChangeLaws
pub mod TermLaws
