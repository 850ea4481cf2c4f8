use Rattle.mz_forced.proofs.ForceLemmas.{one_force}
use Rattle.mz_forced.proofs.laws.one_force_law.Goals as goal

pub returns : goal.returns
returns c = one_force
