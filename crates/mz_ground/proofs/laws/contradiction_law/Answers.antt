use Rattle.mz_ground.proofs.FactsSound.{contradiction_derives}
use Rattle.mz_ground.proofs.laws.contradiction_law.Goals as goal

pub returns : goal.returns
returns c = contradiction_derives
