use Rattle.mz_closed_laws.proofs.FormulaProofs.{constant_law}
use Rattle.mz_closed_laws.proofs.laws.closed_formula_law.Goals as goal

pub returns-clause-constants : goal.returns-clause-constants
returns-clause-constants c = constant_law
