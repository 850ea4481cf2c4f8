use Rattle.mz_ground.proofs.FactsSound.{clause_instance}
use Rattle.mz_ground.proofs.laws.clause_instance_law.Goals as goal

pub returns : goal.returns
returns c = clause_instance
