use Rattle.mz_judged.proofs.MetProofs.{met_law}
use Rattle.mz_judged.proofs.laws.met_law.Goals as goal

pub returns : goal.returns
returns c = met_law
