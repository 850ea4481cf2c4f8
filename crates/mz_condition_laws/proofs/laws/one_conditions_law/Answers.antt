use Rattle.mz_condition_laws.proofs.OneConditions.{one_conditions_law}
use Rattle.mz_condition_laws.proofs.laws.one_conditions_law.Goals as goal

pub returns : goal.returns
returns c = one_conditions_law
