use Rattle.mz_joined.proofs.SaidLemmas.{told_stop}
use Rattle.mz_joined.proofs.said.of_type_within.Goals as goal

pub returns-in-Err : goal.returns-in-Err
returns-in-Err c = told_stop c.args.first c.args.t.now c.loop-a.said _ _ _ _ _ _ c.in-Some.ensures.cases.0 c.in_ok-r.ensures c.in-Err.is c.loop-a.invariant
