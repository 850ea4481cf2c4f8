pub mod OneAtom
pub mod OneFormula
