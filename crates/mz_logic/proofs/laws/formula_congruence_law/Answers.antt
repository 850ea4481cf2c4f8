use Rattle.mz_logic.proofs.Congruence.{formula_congruence}
use Rattle.mz_logic.proofs.laws.formula_congruence_law.Goals as goal

pub returns : goal.returns
returns c = formula_congruence
