use Rattle.mz_logic.proofs.Rules.{cut}
use Rattle.mz_logic.proofs.laws.cut_law.Goals as goal

pub returns : goal.returns
returns c = cut
