pub mod NumeralLemmas
pub mod FindLemmas
pub mod CitedLemmas
