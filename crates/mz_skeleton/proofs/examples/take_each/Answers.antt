use Rattle.mz_performing.proofs.SkeletonLemmas.{told_each_turn, told_each_stop}
use Rattle.mz_skeleton.proofs.examples.take_each.Goals as goal

pub loop-next-preserved : goal.loop-next-preserved
loop-next-preserved c = told_each_turn _ _ _ _ _ _ _ _ _ _ _ c.in-Some.ensures.cases.0 c.take_one.ensures c.in-Ok.is c.loop-next.invariant

pub returns-in-Err : goal.returns-in-Err
returns-in-Err c = told_each_stop _ _ _ _ _ _ _ _ _ _ _ _ _ c.in-Some.ensures.cases.0 c.take_one.ensures c.in-Err.is c.loop-next.invariant
