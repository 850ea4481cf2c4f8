use Rattle.mz_logic.proofs.SetLaws.{same_in_set}
use Rattle.mz_laws.proofs.DerivationProofs.{existential_form_in, existential_form_out}
use Rattle.mz_laws.proofs.derivation_laws.form_law.Goals as goal

pub returns-clause-existential : goal.returns-clause-existential
returns-clause-existential g c = (existential_form_in g.A.FormulaProperty.holds g.P.FormulaProperty.holds, existential_form_out g.A.FormulaProperty.holds g.P.FormulaProperty.holds)

pub returns-clause-same : goal.returns-clause-same
returns-clause-same g c = same_in_set g.A.FormulaProperty.holds g.P.FormulaProperty.holds
