use Rattle.mz_logic.proofs.Congruence.{term_congruence}
use Rattle.mz_logic.proofs.laws.term_congruence_law.Goals as goal

pub returns : goal.returns
returns c = term_congruence
