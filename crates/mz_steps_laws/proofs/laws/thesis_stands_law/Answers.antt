use Rattle.mz_steps_laws.proofs.StandsProofs.{thesis_stands_law}
use Rattle.mz_steps_laws.proofs.laws.thesis_stands_law.Goals as goal

pub returns : goal.returns
returns c = thesis_stands_law
