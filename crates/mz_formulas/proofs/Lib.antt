pub mod DeclaredLemmas
pub mod AtomLemmas
pub mod ChainLemmas
pub mod FormulaLemmas
pub mod QuantifiedLemmas
pub mod SentenceLemmas
