pub mod UnfoldingProofs
