use Rattle.mz_forced.proofs.NextLemmas.{one_next}
use Rattle.mz_forced.proofs.laws.one_next_law.Goals as goal

pub returns : goal.returns
returns c = one_next
