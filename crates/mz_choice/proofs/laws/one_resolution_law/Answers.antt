use Rattle.mz_choice.proofs.OneChoice.{one_resolution_law}
use Rattle.mz_choice.proofs.laws.one_resolution_law.Goals as goal

pub returns : goal.returns
returns c = one_resolution_law
