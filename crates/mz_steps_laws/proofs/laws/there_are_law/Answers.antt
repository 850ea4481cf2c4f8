use Rattle.mz_steps_laws.proofs.ThereAreProofs.{there_are_law}
use Rattle.mz_steps_laws.proofs.laws.there_are_law.Goals as goal

pub returns : goal.returns
returns c = there_are_law
