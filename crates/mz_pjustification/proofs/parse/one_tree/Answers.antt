use Rattle.mz_pjustification.proofs.Unique.{one_simple}
use Rattle.mz_pjustification.proofs.parse.one_tree.Goals as goal

pub returns : goal.returns
returns c = one_simple
