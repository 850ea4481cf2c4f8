use Rattle.mz_steps_laws.proofs.StatedProofs.{stated_law}
use Rattle.mz_steps_laws.proofs.laws.stated_law.Goals as goal

pub returns : goal.returns
returns c = stated_law
