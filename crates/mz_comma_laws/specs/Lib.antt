pub mod CommaLaw
