use Rattle.mz_walk_laws.proofs.WalkProofs.{skeleton_law}
use Rattle.mz_walk_laws.proofs.laws.skeleton_law.Goals as goal

pub returns : goal.returns
returns g c = skeleton_law g.W.Wholeness.whole
