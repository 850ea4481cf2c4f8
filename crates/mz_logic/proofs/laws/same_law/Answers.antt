use Rattle.mz_logic.proofs.Equivalence.{same_derives}
use Rattle.mz_logic.proofs.laws.same_law.Goals as goal

pub returns : goal.returns
returns c = same_derives
