use Rattle.mz_axioms.proofs.AddedLemmas.{sound_added}
use Rattle.mz_axioms.proofs.laws.added_law.Goals as goal

pub returns : goal.returns
returns c = sound_added
