pub mod EarlierLemmas
pub mod EqualityLemmas
pub mod CompactLemmas
pub mod SideLemmas
pub mod AheadLemmas
pub mod BegunLemmas
pub mod NowLemmas
