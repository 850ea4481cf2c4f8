use Rattle.mz_run.proofs.AcceptedLemmas.{accepted_backed}
use Rattle.mz_run.proofs.laws.accepted_law.Goals as goal

pub returns : goal.returns
returns g c = let met = g.C.Semantics in accepted_backed g.C.Semantics.is_outcome met.answers_name
