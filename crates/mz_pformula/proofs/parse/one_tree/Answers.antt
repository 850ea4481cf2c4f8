use Rattle.mz_pformula.proofs.UniqueFormulas.{one_formula}
use Rattle.mz_pformula.proofs.parse.one_tree.Goals as goal

pub returns : goal.returns
returns c = one_formula
