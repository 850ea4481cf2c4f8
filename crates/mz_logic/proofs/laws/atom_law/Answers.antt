use Rattle.mz_logic.proofs.Congruence.{atom_congruence}
use Rattle.mz_logic.proofs.laws.atom_law.Goals as goal

pub returns : goal.returns
returns c = atom_congruence
