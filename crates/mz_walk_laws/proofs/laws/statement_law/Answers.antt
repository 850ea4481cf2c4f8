use Rattle.mz_walk_laws.proofs.WalkProofs.{statement_law}
use Rattle.mz_walk_laws.proofs.laws.statement_law.Goals as goal

pub returns : goal.returns
returns g c = statement_law g.W.Wholeness.whole
