pub mod FormulaOne
pub mod DefiniensProofs
pub mod DefiniensOne
pub mod ReadProofs
pub mod ClosedProofs
pub mod OwingProofs
pub mod HeadingProofs
pub mod OneProofs
