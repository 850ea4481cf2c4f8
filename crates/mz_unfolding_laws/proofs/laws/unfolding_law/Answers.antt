use Rattle.mz_unfolding_laws.proofs.UnfoldingProofs.{unfolding_law}
use Rattle.mz_unfolding_laws.proofs.laws.unfolding_law.Goals as goal

pub returns : goal.returns
returns c = unfolding_law
