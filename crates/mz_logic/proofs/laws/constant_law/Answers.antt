use Rattle.mz_logic.proofs.Generalization.{constant_generalized}
use Rattle.mz_logic.proofs.laws.constant_law.Goals as goal

pub returns : goal.returns
returns c = constant_generalized
