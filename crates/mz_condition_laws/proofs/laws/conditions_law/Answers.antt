use Rattle.mz_condition_laws.proofs.ConditionProofs.{conditions_law}
use Rattle.mz_condition_laws.proofs.laws.conditions_law.Goals as goal

pub returns : goal.returns
returns c = conditions_law
