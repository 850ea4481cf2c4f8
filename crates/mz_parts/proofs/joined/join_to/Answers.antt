use Rattle.mz_parts.proofs.JoinLemmas.{told_and_refused}
use Rattle.mz_parts.proofs.joined.join_to.Goals as goal

pub returns-in-Err : goal.returns-in-Err
returns-in-Err c = told_and_refused c.args.first c.loop-p.all _ _ _ _ _ _ c.in-Some.ensures.cases.0 c.in_ok-r.ensures c.in-Err.is c.loop-p.invariant
