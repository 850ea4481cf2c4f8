use Rattle.mz_run.proofs.OneLemmas.{one_gathering_for}
use Rattle.mz_run.proofs.laws.one_gathering_law.Goals as goal

pub returns : goal.returns
returns c = one_gathering_for
