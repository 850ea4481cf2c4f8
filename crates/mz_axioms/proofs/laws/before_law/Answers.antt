use Rattle.mz_axioms.proofs.BeforeLemmas.{before_later, before_dependency}
use Rattle.mz_axioms.proofs.laws.before_law.Goals as goal

pub returns : goal.returns
returns c = record { later = before_later; dependency = before_dependency }
