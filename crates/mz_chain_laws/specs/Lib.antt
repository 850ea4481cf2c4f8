pub mod ChainLaw
