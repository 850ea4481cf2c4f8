use Rattle.mz_logic.proofs.Congruence.{application_congruence}
use Rattle.mz_logic.proofs.laws.application_law.Goals as goal

pub returns : goal.returns
returns c = application_congruence
