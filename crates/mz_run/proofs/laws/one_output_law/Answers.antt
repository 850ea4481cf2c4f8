use Rattle.mz_run.proofs.OneLemmas.{one_output}
use Rattle.mz_run.proofs.laws.one_output_law.Goals as goal

pub returns : goal.returns
returns g c = let met = g.C.Semantics in one_output g.C.Semantics.is_outcome met.one_outcome
