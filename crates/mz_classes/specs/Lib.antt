pub mod Labels
pub mod Numbers
pub mod SymLists
pub mod Indexed
pub mod Classes
pub mod ClassView
