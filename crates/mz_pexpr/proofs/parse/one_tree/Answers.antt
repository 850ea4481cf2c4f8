use Rattle.mz_pexpr.proofs.Unique.{one_expression}
use Rattle.mz_pexpr.proofs.parse.one_tree.Goals as goal

pub returns : goal.returns
returns c = one_expression
