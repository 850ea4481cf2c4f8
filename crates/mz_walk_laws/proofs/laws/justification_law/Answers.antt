use Rattle.mz_walk_laws.proofs.WalkProofs.{justification_law}
use Rattle.mz_walk_laws.proofs.laws.justification_law.Goals as goal

pub returns : goal.returns
returns g c = justification_law g.W.Wholeness.whole
