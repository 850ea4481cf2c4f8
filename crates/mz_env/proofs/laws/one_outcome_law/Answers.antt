use Rattle.mz_env.proofs.OneOutcome.{one_outcome_law}
use Rattle.mz_env.proofs.laws.one_outcome_law.Goals as goal

pub returns : goal.returns
returns c = one_outcome_law
