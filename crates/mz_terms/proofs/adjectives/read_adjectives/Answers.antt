use Rattle.mz_terms.proofs.AdjectiveLemmas.{told_one_refused, told_one_read}
use Rattle.mz_terms.proofs.adjectives.read_adjectives.Goals as goal

pub returns-in-Err : goal.returns-in-Err
returns-in-Err c = told_one_refused _ _ _ _ _ _ _ _ _ _ _ _ c.in-Some.ensures.cases.0 c.in_ok-r.ensures c.in-Err.is c.loop-node.invariant

pub loop-node-preserved : goal.loop-node-preserved
loop-node-preserved c = told_one_read _ _ _ _ _ _ _ _ _ _ _ _ _ c.in-Some.ensures.cases.0 c.in_ok-r.ensures c.in-Ok.is c.in_ok-push-in-Ok.ensures.ok c.loop-node.invariant
