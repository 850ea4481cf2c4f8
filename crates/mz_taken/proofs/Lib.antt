pub mod OneByOneProofs
