pub mod OneLemmas
pub mod AcceptedLemmas
pub mod WriteLemmas
pub mod TextLemmas
pub mod CheckLemmas
pub mod RunLemmas
