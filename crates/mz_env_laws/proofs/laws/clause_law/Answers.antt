use Rattle.mz_env_laws.proofs.ClauseProofs.{clause_law}
use Rattle.mz_env_laws.proofs.laws.clause_law.Goals as goal

pub returns : goal.returns
returns c = clause_law
