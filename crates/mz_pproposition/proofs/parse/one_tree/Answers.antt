use Rattle.mz_pproposition.proofs.Unique.{one_proposition}
use Rattle.mz_pproposition.proofs.parse.one_tree.Goals as goal

pub returns : goal.returns
returns c = one_proposition
