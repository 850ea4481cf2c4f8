use Rattle.mz_ground.proofs.FactsSound.{fact_derives}
use Rattle.mz_ground.proofs.laws.facts_law.Goals as goal

pub returns : goal.returns
returns c = fact_derives
