pub mod Symbols
pub mod Shares
pub mod Visits
pub mod LetIn
pub mod Walking
