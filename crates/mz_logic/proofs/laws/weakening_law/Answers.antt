use Rattle.mz_logic.proofs.Rules.{weakening}
use Rattle.mz_logic.proofs.laws.weakening_law.Goals as goal

pub returns : goal.returns
returns c = weakening
