use Rattle.mz_dependency_laws.proofs.FormulaProofs.{formulas_law}
use Rattle.mz_dependency_laws.proofs.laws.formulas_law.Goals as goal

pub returns : goal.returns
returns c = formulas_law
