use Rattle.mz_parts.proofs.JoinLemmas.{told_or_refused}
use Rattle.mz_parts.proofs.joined.disjoin.Goals as goal

pub returns-in-Err : goal.returns-in-Err
returns-in-Err c = told_or_refused c.args.first c.loop-t.all _ _ _ _ _ _ c.in-Some.ensures.cases.0 c.in_ok-r.ensures c.in-Err.is c.loop-t.invariant
