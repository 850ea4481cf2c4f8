pub mod KindProofs
