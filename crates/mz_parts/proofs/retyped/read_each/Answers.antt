use Rattle.mz_parts.proofs.TermLemmas.{told_each_stop, told_each_turn}
use Rattle.mz_parts.proofs.retyped.read_each.Goals as goal

pub loop-x-preserved : goal.loop-x-preserved
loop-x-preserved c = told_each_turn _ _ _ _ _ _ _ _ _ _ _ _ _ _ _ c.in-Some.ensures.cases.0 c.read_one.ensures c.in-Ok.is c.loop-x.invariant

pub returns-in-Err : goal.returns-in-Err
returns-in-Err c = told_each_stop _ _ _ _ _ _ _ _ _ _ _ _ _ _ _ _ c.in-Some.ensures.cases.0 c.read_one.ensures c.in-Err.is c.loop-x.invariant
