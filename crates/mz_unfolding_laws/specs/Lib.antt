pub mod UnfoldingLaw
