use Rattle.mz_laws.proofs.DerivationProofs.{parts_derive, derive_parts}
use Rattle.mz_laws.proofs.derivation_laws.parts_law.Goals as goal

pub returns : goal.returns
returns g c = (parts_derive g.A.FormulaProperty.holds g.P.FormulaProperty.holds, derive_parts g.A.FormulaProperty.holds g.P.FormulaProperty.holds)
