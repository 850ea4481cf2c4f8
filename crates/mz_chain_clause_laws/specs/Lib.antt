pub mod ChainClauses
