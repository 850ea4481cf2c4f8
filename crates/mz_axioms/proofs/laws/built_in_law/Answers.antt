use Rattle.mz_axioms.proofs.BuiltInLemmas.{built_in_sound}
use Rattle.mz_axioms.proofs.laws.built_in_law.Goals as goal

pub returns : goal.returns
returns c = built_in_sound
